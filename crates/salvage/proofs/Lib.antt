-- The theorems of specs/Laws.antt.
pub mod Filling
pub mod Grouping
pub mod Starting
pub mod Keeping
pub mod Telling
pub mod Laying
pub mod Walking
pub mod Turning
pub mod Setting
pub mod Calling
pub mod Proved
pub mod Examples
