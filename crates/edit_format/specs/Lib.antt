pub mod Tests
pub mod Digits
pub mod Items
pub mod Written
pub mod Reading
pub mod Records
pub mod Charge
