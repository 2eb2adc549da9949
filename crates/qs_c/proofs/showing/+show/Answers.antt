use Rattle.std.proofs.Common.{◌≡◌, ◌++◌, [], ◌∷◌, OnOk, ap, ◌∙◌, sym, subst, append_assoc, string_bytes, rules}
use Rattle.json.specs.Token.{begin_object, end_object, key}
use Rattle.json.specs.Tree.{json_tokens}
use Rattle.qs_data.specs.data.Views.{data_of, members_in}
use Rattle.qs_data.proofs.lemmas.data.Levels.{data_of_struct_variant}
use Rattle.qs_c.specs.Shown.{json_of, json_members, object_tokens}
use Rattle.qs_c.proofs.showing.+show.Goals as goal

pub show-returns-in_ok-show_members-in-StructVariant-clause-tokens : goal.show-returns-in_ok-show_members-in-StructVariant-clause-tokens
show-returns-in_ok-show_members-in-StructVariant-clause-tokens t c =
    let before = c.args.writer.now.tokens in
    let opening = begin_object ∷ key (string_bytes c.in-StructVariant.name) ∷ [] in
    let inner = object_tokens (json_members (members_in c.in-StructVariant.members.items)) in
    let shown : c.show_members-in-StructVariant.new.writer.tokens ≡ (before ++ opening) ++ inner = search rules in
    let datum = ap data_of c.in-StructVariant.is ∙ data_of_struct_variant c.in-StructVariant.name c.in-StructVariant.members in
    let whole : c.show_members-in-StructVariant.new.writer.tokens ++ end_object ∷ [] ≡ before ++ json_tokens (json_of (data_of c.args.datum.now)) =
    ap (λ ts. ts ++ end_object ∷ []) shown ∙ append_assoc (before ++ opening) inner (end_object ∷ []) ∙ append_assoc before opening (inner ++ end_object ∷ [])
    ∙ ap (λ x. before ++ json_tokens (json_of x)) (sym datum) in
    subst (λ ts. OnOk c.end_object-in-StructVariant.result (c.end_object-in-StructVariant.new.self.tokens ≡ ts)) whole c.end_object-in-StructVariant.ensures.ok
