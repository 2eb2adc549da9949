use Rattle.std.proofs.Common.{◌≡◌, ap, refl, sym, subst, ◌∙◌, drop, take, codes, string_bytes, arith}
use Rattle.std.specs.List.{prefix_len}
use Rattle.qs_spec.specs.Escape.{decoded}
use Rattle.qs_c.specs.Found.{found}
use Rattle.qs_c.specs.Notation.{is_no_quote, name_of, quoted, wanted}
use Rattle.qs_c.specs.internal.Parses.{Parses}
use Rattle.qs_c.proofs.Found.{then-found}
use Rattle.qs_c.proofs.notation.cursor.Cursor.quoted.Goals as goal

pub returns-in-Ok : goal.returns-in-Ok
unfolding quoted
returns-in-Ok c =
    let t = c.args.self.now.rest.now in
    let n = prefix_len is_no_quote t in
    let rest = c.expect.new.self.rest.now in
    let after : drop n t ≡ c.split_at.result.1.now = grind arith in
    let bytes : c.as_slice.result.now ≡ decoded (take n t) = grind arith in
    let opened : wanted 34 (codes "a name has no closing quote") (drop n t) ≡ found tt rest = ap (wanted 34 (codes "a name has no closing quote")) after ∙ c.in_ok-expect.ensures in
    let whole : quoted t ≡ name_of (decoded (take n t)) rest = then-found _ (λ u r. name_of (decoded (take n t)) r) _ tt rest opened refl in
    subst (λ x. Parses (string_bytes) x c.name_of.result rest) (ap (λ b. name_of b rest) bytes ∙ sym whole) (c.name_of.ensures rest)
