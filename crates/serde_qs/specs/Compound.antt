-- Structs and enums by what they are made of.
use Rattle.qs_spec.specs.Data.{Data}

-- The data of a value. It unfolds only on request, so that a proof about a struct doesn't look into its fields.
unfoldable pub data_by : {A : Type 0} → (A → Data) → A → Data
data_by datum x = datum x
