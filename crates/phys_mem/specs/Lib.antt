pub mod Contents
pub mod Window
