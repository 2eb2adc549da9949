-- What a shape reads from a node, as one value: the data that the relation of qs_spec (Relation.antt) gives for them, or none if it gives
-- none. The law `reads_is_the_relation` says this for each shape whose names differ, and no more need be known of the function. Of
-- several variants with the same name it takes the first.
pub use Rattle.qs_spec.specs.internal.ReadFunction.{reads}
-- The same for a struct's fields, in their order: `reads_names` looks up each by its name among entries, and `reads_places` by its index
-- among items.
pub use Rattle.qs_spec.specs.internal.ReadFunction.{reads_names, reads_places}
