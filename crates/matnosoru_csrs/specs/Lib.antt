pub mod Csrs
