pub mod Fields
pub mod InstructionWord
pub mod Written
