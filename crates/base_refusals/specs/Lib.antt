-- What a refusal reports.

-- the number, the pattern and the two figures of each refusal
pub mod Report
