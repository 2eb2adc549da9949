use Rattle.std.proofs.Common.{refl}
use Rattle.qs_spec.proofs.OnLiterals.{on_literals}
use Rattle.qs_spec.proofs.read_back.data_that_fit.Goals as goal

pub returns-clause-greatest : goal.returns-clause-greatest
unfolding on_literals
returns-clause-greatest c = refl

pub returns-clause-too_great : goal.returns-clause-too_great
unfolding on_literals
returns-clause-too_great c = refl

pub returns-clause-least : goal.returns-clause-least
unfolding on_literals
returns-clause-least c = refl

pub returns-clause-too_small : goal.returns-clause-too_small
unfolding on_literals
returns-clause-too_small c = refl

pub returns-clause-surrogate : goal.returns-clause-surrogate
unfolding on_literals
returns-clause-surrogate c = refl

pub returns-clause-last_character : goal.returns-clause-last_character
unfolding on_literals
returns-clause-last_character c = refl

pub returns-clause-not_utf8 : goal.returns-clause-not_utf8
unfolding on_literals
returns-clause-not_utf8 c = refl

pub returns-clause-bytes : goal.returns-clause-bytes
unfolding on_literals
returns-clause-bytes c = refl

pub returns-clause-tuple : goal.returns-clause-tuple
unfolding on_literals
returns-clause-tuple c = refl

pub returns-clause-short_tuple : goal.returns-clause-short_tuple
unfolding on_literals
returns-clause-short_tuple c = refl

pub returns-clause-left_out : goal.returns-clause-left_out
unfolding on_literals
returns-clause-left_out c = refl

pub returns-clause-missing : goal.returns-clause-missing
unfolding on_literals
returns-clause-missing c = refl

pub returns-clause-keys : goal.returns-clause-keys
unfolding on_literals
returns-clause-keys c = refl

pub returns-clause-key_of_a_character : goal.returns-clause-key_of_a_character
unfolding on_literals
returns-clause-key_of_a_character c = refl

pub returns-clause-variants : goal.returns-clause-variants
unfolding on_literals
returns-clause-variants c = refl

pub returns-clause-another_variant : goal.returns-clause-another_variant
unfolding on_literals
returns-clause-another_variant c = refl
