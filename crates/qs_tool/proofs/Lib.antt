pub mod Lines
pub mod Numbers
pub mod Options
pub mod Pieces
pub mod Errors
pub mod Exact
pub mod Rewriting
pub mod Forms
