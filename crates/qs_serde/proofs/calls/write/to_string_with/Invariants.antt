use Rattle.qs_serde.proofs.calls.write.to_string_with.Given as goal

abbrev pub ghosts-write_text : goal.ghosts-write_text
ghosts-write_text g a = record { config = a.config }
