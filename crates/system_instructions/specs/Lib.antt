pub mod Instruction
pub mod Grounds
pub mod Reasons
