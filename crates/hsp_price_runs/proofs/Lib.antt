mod RowsTaken
mod PassedOver
mod LogReading
pub mod Judged
mod RowsSpelled
pub mod Known
pub mod Shown
mod OneTheory
mod RowsHeld
mod Planned
mod PlanShown
mod PlannedAlways
