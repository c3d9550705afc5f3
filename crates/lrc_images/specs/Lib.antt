pub mod Images
pub mod Rising
pub mod Causes
pub mod CauseNumbers
pub mod Bases
pub mod Rows
pub mod Cuts
pub mod Faults
