pub mod Elongated
pub mod Places
pub mod Currents
pub mod Writes
pub mod Verdicts
pub mod Kept
