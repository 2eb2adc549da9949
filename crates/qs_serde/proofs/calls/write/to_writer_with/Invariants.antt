use Rattle.qs_serde.proofs.calls.write.to_writer_with.Given as goal

abbrev pub ghosts-write_to : goal.ghosts-write_to
ghosts-write_to g a = record { config = a.config }
