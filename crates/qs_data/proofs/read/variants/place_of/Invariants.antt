use Rattle.qs_data.proofs.Common.{◌≡◌, drop, variants_in, variant_named}
use Rattle.qs_data.proofs.read.variants.place_of.Given as goal

abbrev pub invariant-loop-i : goal.invariant-loop-i
invariant-loop-i l = variant_named l.name (variants_in l.variants) ≡ variant_named l.name (variants_in (drop l.i l.variants))
