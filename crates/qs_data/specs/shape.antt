-- To be believed: which shapes of the definitions a program's shapes are, the variant of a name, and
-- how many bits a width has.
pub mod Views
pub mod Variants
pub mod Widths
pub mod internal
