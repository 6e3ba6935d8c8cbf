use Rattle.hsp_price_runs.proofs.log_pass.pass_log.Given as goal

-- the log is what is watched
abbrev pub ghosts-pass_watched : goal.ghosts-pass_watched
ghosts-pass_watched g a = record { may_fail = g.R.Source.may_read_fail a.log }
