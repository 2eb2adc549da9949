-- The keys of a map differ where those of a map that is the same differ.
use Rattle.std.proofs.Common.{sym}
use Rattle.qs_spec.specs.Data.{Data, Pairs}
use Rattle.qs_spec.specs.Same.{IsNoKey, KeysDiffer, IsWith, SamePairs}

-- keys that differ
no_key : (k : Data) (ps qs : Pairs) → SamePairs ps qs → IsNoKey k ps → IsNoKey k qs
no_key k _ _ SamePairs.pairs_end h = tt
no_key k _ qs (SamePairs.pairs_more {k = j} {e = e} {ps = ps} {rest = rest} s w m) h = with_other qs rest w (no_key k ps rest m h.1)
  where
    with_other : (us vs : Pairs) → IsWith j e us vs → IsNoKey k vs → IsNoKey k us
    with_other _ _ IsWith.here g = (h.0, g)
    with_other _ _ (IsWith.later {ps = us} {qs = vs} w) g = (g.0, with_other us vs w g.1)

with_differ : (k e : Data) (qs rest : Pairs) → IsWith k e qs rest → IsNoKey k rest → KeysDiffer rest → KeysDiffer qs
with_differ k e _ _ IsWith.here n d = (n, d)
with_differ k e _ _ (IsWith.later {j = j} {ps = qs} {qs = rest} w) n d = (other qs rest w d.0, with_differ k e qs rest w n.1 d.1)
  where
    other : (us vs : Pairs) → IsWith k e us vs → IsNoKey j vs → IsNoKey j us
    other _ _ IsWith.here g = (λ f. n.0 (sym f), g)
    other _ _ (IsWith.later {ps = us} {qs = vs} w) g = (g.0, other us vs w g.1)

pub same_differ : (ps qs : Pairs) → SamePairs ps qs → KeysDiffer ps → KeysDiffer qs
same_differ _ _ SamePairs.pairs_end h = tt
same_differ _ qs (SamePairs.pairs_more {k = k} {e = e} {ps = ps} {rest = rest} s w m) h = with_differ k e qs rest w (no_key k ps rest m h.0) (same_differ ps rest m h.1)
