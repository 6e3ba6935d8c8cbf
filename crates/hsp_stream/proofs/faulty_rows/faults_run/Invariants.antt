use Rattle.hsp_stream.proofs.faulty_rows.faults_run.Given as goal

-- the text is what is watched
abbrev pub ghosts-list_watched : goal.ghosts-list_watched
ghosts-list_watched g a = record { may_fail = g.R.Source.may_read_fail a.text }
