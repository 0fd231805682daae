-- Reading an input by the nodes of a template.
-- what a node reads, and all nodes one after another
pub mod Reader
-- what holds of reading from node to node
pub mod Turn
-- what holds of the lane
pub mod Lane
-- worked examples
pub mod Examples
