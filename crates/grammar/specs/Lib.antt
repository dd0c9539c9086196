pub mod Refusals
pub mod Marks
pub mod Pieces
pub mod Words
pub mod Reading
pub mod Objections
pub mod Texts
