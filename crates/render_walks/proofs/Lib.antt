pub mod Walking
pub mod Numbers
