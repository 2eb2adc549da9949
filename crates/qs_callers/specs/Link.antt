-- The text of a link.
use Rattle.std.specs.Prelude.{◌≡◌, false, ℕ, List, codes, ◌++◌}
use Rattle.qs_spec.specs.Config.{default}
use Rattle.qs_callers.specs.declared.link.Link.{Link}

-- what was written of it
abbrev pub link_text : Link → List ℕ
link_text link = link.text.sink.writer.items

-- a link to a page, without parameters
pub record IsBareLink (page : List ℕ) (link : Link) : Type 0 where
  pub text : link_text link ≡ page ++ codes "?"
  pub config : link.text.config ≡ default
  pub no_parameter : link.text.started ≡ false
