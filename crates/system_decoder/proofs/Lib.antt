pub mod SystemMasks
pub mod SystemForms
pub mod SystemSteps
pub mod Codes
pub mod Reasons
