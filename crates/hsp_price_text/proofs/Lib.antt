pub mod Parts
pub mod Grammar
pub mod DraftSteps
pub mod Taking
pub mod Whole
pub mod Appended
