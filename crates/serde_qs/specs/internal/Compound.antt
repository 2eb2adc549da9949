-- Structs and enums by what they are made of.
use Rattle.std.specs.Prelude.{Option}
use Rattle.qs_spec.specs.Data.{Data}
use Rattle.qs_spec.specs.Shape.{Shape}
use Rattle.serde_qs.specs.ComesBack.{ComesBack, DataFit}
use Rattle.serde_qs.specs.Compound.{data_by}

pub data_by_fit : {A : Type 0} (datum : A → Data) (shape : Shape) → DataFit datum shape → DataFit (data_by datum) shape
unfolding data_by
data_by_fit datum shape fit is_form x h = fit is_form x h

pub data_by_back : {A V : Type 0} (datum : A → Data) (meaning : Data → Option V) (value : A → V) → ComesBack datum meaning value → ComesBack (data_by datum) meaning value
unfolding data_by
data_by_back datum meaning value back is_form x e h p = back is_form x e h p
