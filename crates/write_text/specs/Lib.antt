-- Writing a moment by a template.

-- the text of a moment by a template
pub mod Text
-- the eight markers: each writes in its own case
pub mod OwnCase
-- the six patterns of month names: each writes the month's
pub mod ByName
-- the writer's answer, and the buffer after it
pub mod Writer
-- the number of each refusal
pub mod Report
-- full templates: those that a moment is read back by
pub mod Full
