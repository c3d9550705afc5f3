pub mod Buffers
pub mod Coding
pub mod Matrices
