use Rattle.std.proofs.Common.{◌≡◌, true, arith, codes, map, string_bytes}
use Rattle.std.specs.Str.{bytes_eq}
use Rattle.qs_c.specs.Found.{found}
use Rattle.qs_c.specs.Notation.{after_word, comma_or_parenthesis, key, list_of, name, open_wanted, word}
use Rattle.qs_data.specs.shape.Views.{key_shape_of}
use Rattle.qs_c.proofs.Found.{cond-true, seen-fault, seen-found, then-found}
use Rattle.qs_c.proofs.Stopping.{exits}
use Rattle.qs_c.proofs.notation.keys.map_key.Goals as goal

pub returns-then-eq : goal.returns-then-eq
unfolding key
returns-then-eq c =
    let t = c.args.cursor.now.rest.now in
    let yes : bytes_eq (word t) (codes "enum") ≡ true = grind arith in
    let r = c.expect.new.self.rest.now in
    let opened : open_wanted (after_word t) ≡ found tt r = grind arith in
    let listed : list_of name 41 comma_or_parenthesis r ≡ found (map string_bytes c.in_ok-names.field-0.items) c.names.new.cursor.rest.now = grind arith in
    cond-true (bytes_eq (word t) (codes "enum")) _ _ _ yes (then-found _ _ _ tt r opened (seen-found _ _ _ _ listed))

pub returns-in_err-names : goal.returns-in_err-names
unfolding key
returns-in_err-names c =
    let t = c.args.cursor.now.rest.now in
    let yes : bytes_eq (word t) (codes "enum") ≡ true = grind arith in
    let r = c.expect.new.self.rest.now in
    let opened : open_wanted (after_word t) ≡ found tt r = grind arith in
    exits key_shape_of c.from_residual-in_err-names.result (list_of name 41 comma_or_parenthesis r) (key t) c.in_err-names.field-0.0 c.names.new.cursor.rest.now c.from_residual-in_err-names.ensures.1 c.in_err-names.ensures
    (λ w q e. cond-true (bytes_eq (word t) (codes "enum")) _ _ _ yes (then-found _ _ _ tt r opened (seen-fault _ _ w q e)))
