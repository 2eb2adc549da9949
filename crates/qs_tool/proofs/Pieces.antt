-- Texts that are begun piece by piece.
use Rattle.std.proofs.Common.{◌≡◌, ℕ, ◌<◌, ◌+◌, List, [], ◌∷◌, ◌++◌, length, sym, ap, ◌∙◌, codes, append_assoc, length-append, arith, rules}
use Rattle.std.proofs.lemmas.List.Sums.{fold-append}
use Rattle.std.specs.declared.vec.Vec.{Vec}
use Rattle.std.specs.declared.alloc.Global.{Global}
use Rattle.qs_spec.specs.Data as d
use Rattle.qs_data.specs.data.Views.{data_of, pairs_in}
use Rattle.qs_data.specs.declared.data.data.Data as r
use Rattle.qs_data.specs.declared.data.data.Data.{Data}
use Rattle.qs_tool.specs.declared.showing.Pending.{Pending}
use Rattle.qs_tool.specs.Shown.{listed}
use Rattle.qs_tool.specs.internal.Pieces.{after_commas, before, piece_text, text_of_stack, Begins}

-- the first text follows no comma
listed_first : (t : List ℕ) (ts : List (List ℕ)) → listed (t ∷ ts) ≡ t ++ after_commas ts
listed_first t [] = search (rules)
listed_first t (u ∷ ts) = ap (λ rest. t ++ (codes "," ++ rest)) (listed_first u ts)

-- the last piece of a stack is written first
pub text_of_more : (stack stack_after : List Pending) (piece : Pending) → stack_after ≡ stack ++ piece ∷ [] → text_of_stack stack_after ≡ piece_text piece ++ text_of_stack stack
text_of_more stack stack_after piece is = ap text_of_stack is ∙ fold-append before [] stack (piece ∷ [])

longer : (text line line_after : List ℕ) → 0 < length text → line_after ≡ line ++ text → length line < length line_after
longer text line line_after some is = let count : length line_after ≡ length line + length text = ap length is ∙ length-append line text in omega (arith, count, some)

-- a text that was written whole
pub begins_whole : (text line : List ℕ) (stack : List Pending) (line_after : List ℕ) → 0 < length text → line_after ≡ line ++ text → Begins text line stack line_after stack
begins_whole text line stack line_after some is = record {
  whole = ap (λ l. l ++ text_of_stack stack) is ∙ append_assoc line text (text_of_stack stack);
  grows = longer text line line_after some is;
}

-- texts between marks: the first mark was written, the first text is on the stack, and what is left of them below it
pub begins_listed : (opening closing t : List ℕ) (ts : List (List ℕ)) (line : List ℕ) (stack : List Pending) (line_after : List ℕ) (stack_after : List Pending)
    → 0 < length opening → line_after ≡ line ++ opening → text_of_stack stack_after ≡ t ++ ((after_commas ts ++ closing) ++ text_of_stack stack)
    → Begins (opening ++ (listed (t ∷ ts) ++ closing)) line stack line_after stack_after
begins_listed opening closing t ts line stack line_after stack_after some is left = record {
  whole =
      let rest = text_of_stack stack in
      let texts : (listed (t ∷ ts) ++ closing) ++ rest ≡ t ++ ((after_commas ts ++ closing) ++ rest) =
      ap (λ l. (l ++ closing) ++ rest) (listed_first t ts) ∙ ap (λ l. l ++ rest) (append_assoc t (after_commas ts) closing)
      ∙ append_assoc t (after_commas ts ++ closing) rest in
      ap (λ l. l ++ text_of_stack stack_after) is ∙ ap (λ p. (line ++ opening) ++ p) (left ∙ sym texts) ∙ append_assoc line opening _
      ∙ ap (λ l. line ++ l) (sym (append_assoc opening (listed (t ∷ ts) ++ closing) rest));
  grows = longer opening line line_after some is;
}
