pub mod LoadStore
