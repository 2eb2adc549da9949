-- The names that proofs of `any` and `all` over a slice cite, passed on from one place. Declares nothing.
pub use Rattle.std.proofs.Common.{tests}
pub use Rattle.std.proofs.lemmas.Iterator.{YieldsList-from_slice}
pub use Rattle.std.proofs.lemmas.Iterator.Search.{all_from_yields_List, any_from_yields_List}
pub use Rattle.std.proofs.lemmas.List.Recursion.{same_from_clauses}
