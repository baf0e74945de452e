-- The planner's heuristic (FORMAT.md, "Planner"): what it promises.
pub mod Proposed
