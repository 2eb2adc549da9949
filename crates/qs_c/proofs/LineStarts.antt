-- The path of an explanation, from its first segment.
use Rattle.std.proofs.Common.{◌≡◌, ◌++◌, false, List, [], ◌∷◌, map, ap, sym, refl}
use Rattle.qs_spec.specs.Escape.{encoded}
use Rattle.qs_spec.specs.Segment.{segment_text}
use Rattle.qs_spec.specs.Written.{brackets_text, path_text}
use Rattle.qs_data.specs.declared.failure.segment.Segment.{Segment}
use Rattle.qs_data.specs.failure.Mismatch.{segment_of}

pub path_none : (p : List Segment) → p ≡ [] → [] ≡ path_text false (map segment_text (map segment_of p))
unfolding path_text
path_none [] is = refl
path_none (s ∷ p) is = absurd cc

pub path_some : (p rest : List Segment) (s : Segment) → p ≡ s ∷ rest → encoded false (segment_text (segment_of s)) ++ brackets_text false (map segment_text (map segment_of rest)) ≡ path_text false (map segment_text (map segment_of p))
unfolding path_text
path_some [] rest s is = absurd cc
path_some (t ∷ p) rest s is =
    ap (λ (path : List Segment). path_text false (map segment_text (map segment_of path))) (sym is)
