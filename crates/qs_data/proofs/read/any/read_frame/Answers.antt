use Rattle.qs_data.proofs.Common.{◌≡◌, suc, ◌+◌, ◌*◌, ◌<◌, List, [], ◌∷◌, ◌++◌, ap, sym, subst, ◌∙◌, Option, Some, Ok, arith, common_steps, Advances, frame_data, frame_is_text, frame_size, data_of}
use Rattle.qs_data.specs.declared.read.nested.Partial.{Partial}
use Rattle.qs_data.proofs.lemmas.read.Nesting.{Continues, frames_size, goes_in, smaller_in, goes_out, smaller_out, fails}
use Rattle.qs_data.proofs.lemmas.read.ReadErrors.{gives_exit}
use Rattle.qs_data.proofs.read.any.read_frame.Goals as goal

pub returns-in_err-inner : goal.returns-in_err-inner
returns-in_err-inner c =
    let l = c.loop-frame in
    gives_exit data_of (frame_is_text l.frame) (frame_is_text c.args.outermost) c.from_residual.result c.in_err-inner.field-0.0 (frame_data l.frame) (frame_data c.args.outermost)
    c.from_residual.ensures.1 c.in_err-inner.ensures (fails c.args.outermost l.frame l.stack.items l.invariant) l.invariant.text

pub loop-frame-smaller-in-Some : goal.loop-frame-smaller-in-Some
loop-frame-smaller-in-Some c =
    let l = c.loop-frame in
    let new = c.advance.new.self in
    let P : Option Partial → Type 0 = λ o. Advances (Ok o) l.frame new in
    let Q : List Partial → Type 0 = λ ls. frames_size ls + suc (2 * frame_size c.replace.new.dest) < frames_size l.stack.items + suc (2 * frame_size l.frame) in
    let R : Partial → Type 0 = λ inner. frames_size (l.stack.items ++ new ∷ []) + suc (2 * frame_size inner) < frames_size l.stack.items + suc (2 * frame_size l.frame) in
    let pushed : c.push.new.self.items ≡ l.stack.items ++ new ∷ [] = grind (arith, common_steps) in
    let entered = subst P c.in-Some.is c.in_ok-inner.ensures in
    subst Q (sym pushed) (subst R (sym c.replace.ensures.after) (smaller_in c.in-Some.inner l.frame new l.stack.items entered))

pub loop-frame-preserved-in-Some : goal.loop-frame-preserved-in-Some
loop-frame-preserved-in-Some c =
    let l = c.loop-frame in
    let new = c.advance.new.self in
    let P : Option Partial → Type 0 = λ o. Advances (Ok o) l.frame new in
    let Q : List Partial → Type 0 = λ ls. Continues c.args.outermost ls c.replace.new.dest in
    let R : Partial → Type 0 = λ inner. Continues c.args.outermost (l.stack.items ++ new ∷ []) inner in
    let pushed : c.push.new.self.items ≡ l.stack.items ++ new ∷ [] = grind (arith, common_steps) in
    let entered = subst P c.in-Some.is c.in_ok-inner.ensures in
    subst Q (sym pushed) (subst R (sym c.replace.ensures.after) (goes_in c.args.outermost c.in-Some.inner l.frame new l.stack.items l.invariant entered))

pub loop-frame-smaller : goal.loop-frame-smaller
loop-frame-smaller c =
    let l = c.loop-frame in
    smaller_out c.in-Some-pop.outer l.frame c.add.new.self l.stack.items c.pop.new.self.items (data_of c.done-data.result) c.in-Some-pop.ensures.items c.in_ok-add.ensures.ok

pub loop-frame-preserved : goal.loop-frame-preserved
loop-frame-preserved c =
    let l = c.loop-frame in
    let P : Option Partial → Type 0 = λ o. Advances (Ok o) l.frame c.advance.new.self in
    let done : frame_data l.frame ≡ Some (data_of c.done-data.result) = subst P c.in_default.is c.in_ok-inner.ensures ∙ ap Some (sym c.done-data.ensures) in
    goes_out c.args.outermost c.in-Some-pop.outer l.frame c.add.new.self l.stack.items c.pop.new.self.items (data_of c.done-data.result) l.invariant done
    c.in-Some-pop.ensures.items c.in_ok-add.ensures.ok
