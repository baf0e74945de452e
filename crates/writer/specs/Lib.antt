-- The definitions that the writer's inner functions cite.
pub mod Start
pub mod Sizes
pub mod PatchedBase
