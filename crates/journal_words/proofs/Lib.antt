pub mod Pages
pub mod Words
