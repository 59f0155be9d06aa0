pub mod Rooms
pub mod OperationLaws
pub mod TokenLaws
pub mod CursorLaws
pub mod EachLaws
