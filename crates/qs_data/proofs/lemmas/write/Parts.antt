-- Parts, one after another and one in another.
use Rattle.qs_data.proofs.Common.{◌≡◌, refl, ℕ, List, sym, ◌∙◌, subst, Result, Ok, Err, IsErrAnd, Config, Path, nothing, Stop, OutOfMemory, Part, WritesPart, Leaves, both, under, state_of, WritesAt, IsBarred, LeavesAt}
use Rattle.qs_data.specs.declared.write.writer.Writer.{Writer}
use Rattle.qs_data.specs.write.Parts.{Enters}
use Rattle.qs_data.proofs.lemmas.write.Wrote.{writes_both, writes_first, writes_nothing, writes_same, some_none}
use Rattle.qs_data.proofs.lemmas.write.Walk.{stays_out, writes_under, stops_under}

pub part_then : (r : Result (Unit {0}) Stop) (a b c : Writer) (x y : Part) → WritesPart (Ok tt) a b x → WritesPart r b c y → WritesPart r a c (both x y)
part_then r a b c x y p q = record {
  config = q.config ∙ p.config;
  writes = writes_both r a.config (state_of a) (state_of b) (state_of c) a.walk b.walk c.walk x y p.writes
      (subst (λ (k : Config). WritesAt k r (state_of b) (state_of c) b.walk c.walk y) p.config q.writes);
}

pub part_stops : (e : Stop) (a b : Writer) (x y : Part) → WritesPart (Err e) a b x → WritesPart (Err e) a b (both x y)
part_stops e a b x y p = record { config = p.config; writes = writes_first e a.config (state_of a) (state_of b) a.walk b.walk x y p.writes }

-- no part at all
pub part_nothing : (a : Writer) → WritesPart (Ok tt) a a (λ config path. nothing)
part_nothing a = record { config = refl; writes = writes_nothing a.config (state_of a) a.walk }

-- an allocation failed at once
pub part_out_of_memory : (a : Writer) (x : Part) → WritesPart (Err OutOfMemory) a a x
part_out_of_memory a x = record { config = refl; writes = λ path at. some_none a.config.is_form (state_of a) (x a.config path).entries }

-- where the writer doesn't go in
pub part_entering : (e : Stop) (a b : Writer) (s : List ℕ) → b.config ≡ a.config → state_of b ≡ state_of a → IsBarred a.config e a.walk → (x : Part) → WritesPart (Err e) a b (under s x)
part_entering e a b s same kept why x = record {
  config = same;
  writes = subst (λ t. WritesAt a.config (Err e) (state_of a) t a.walk b.walk (under s x)) (sym kept) (stays_out (Err e) e a.config (state_of a) a.walk b.walk s x refl why);
}

-- what the exit of a `?` owes
pub part_exit : (r : Result (Unit {0}) Stop) (e : Stop) (a b : Writer) (x : Part) → IsErrAnd r (λ y. y ≡ e) → WritesPart (Err e) a b x → WritesPart r a b x
part_exit (Ok t) e a b x h p = absurd h
part_exit (Err y) e a b x h p = subst (λ z. WritesPart (Err z) a b x) (sym h) p

-- the same part, said otherwise
pub part_same : (r : Result (Unit {0}) Stop) (a b : Writer) (x y : Part) → ((path : Path) → x a.config path ≡ y a.config path) → WritesPart r a b x → WritesPart r a b y
part_same r a b x y same p = record { config = p.config; writes = writes_same r a.config (state_of a) (state_of b) a.walk b.walk x y same p.writes }

-- The invariant of a loop: whatever is yet written of the rest makes the whole.
abbrev pub PartContinues : Writer → Writer → Part → Part → Type 0
PartContinues start now rest whole = (r : Result (Unit {0}) Stop) (last : Writer) → WritesPart r now last rest → WritesPart r start last whole

module _ (start now : Writer) (old whole : Part) (go : PartContinues start now old whole) where
  pub part_goes_on : (next : Writer) (mine rest : Part) → ((path : Path) → both mine rest now.config path ≡ old now.config path) → WritesPart (Ok tt) now next mine
      → PartContinues start next rest whole
  part_goes_on next mine rest same w = λ r last p. go r last (part_same r now last (both mine rest) old same (part_then r now next last mine rest w p))

  pub part_ends_early : (e : Stop) (next : Writer) (mine rest : Part) → ((path : Path) → both mine rest now.config path ≡ old now.config path) → WritesPart (Err e) now next mine
      → WritesPart (Err e) start next whole
  part_ends_early e next mine rest same w = go (Err e) next (part_same (Err e) now next (both mine rest) old same (part_stops e now next mine rest w))

  pub part_ends : ((path : Path) → nothing ≡ old now.config path) → WritesPart (Ok tt) start now whole
  part_ends same = go (Ok tt) now (part_same (Ok tt) now now (λ config path. nothing) old same (part_nothing now))

module _ (segment : List ℕ) (len : ℕ) (old within : Writer) (x : Part) (entered : Enters segment len old within) where
  -- the part's clause, from before the writer went in
  inner : (r : Result (Unit {0}) Stop) (back : Writer) → WritesPart r within back x → WritesAt old.config r (state_of old) (state_of back) within.walk back.walk x
  inner r back p =
      subst (λ s. WritesAt old.config r s (state_of back) within.walk back.walk x) entered.state
      (subst (λ (k : Config). WritesAt k r (state_of within) (state_of back) within.walk back.walk x) entered.config p.writes)

  -- a part under one more segment
  pub part_under : (back to : Writer) → WritesPart (Ok tt) within back x → Leaves len back to → WritesPart (Ok tt) old to (under segment x)
  part_under back to p left =
      let same = p.config ∙ entered.config in
      let out = subst (λ (k : Config). LeavesAt k len back.walk to.walk) same left.back in
      record {
        config = left.config ∙ same;
        writes = subst (λ s. WritesAt old.config (Ok tt) (state_of old) s old.walk to.walk (under segment x)) (sym left.state)
            (writes_under old.config segment x (state_of old) (state_of back) old.walk within.walk entered.within back.walk to.walk len (inner (Ok tt) back p) out entered.before);
      }

  pub part_stops_under : (e : Stop) (back : Writer) → WritesPart (Err e) within back x → WritesPart (Err e) old back (under segment x)
  part_stops_under e back p = record {
    config = p.config ∙ entered.config;
    writes = stops_under old.config segment x (state_of old) (state_of back) old.walk within.walk entered.within (Err e) e back.walk refl (inner (Err e) back p);
  }
