use Rattle.hsp_text.proofs.wide.+push_wide_number.Given as goal

abbrev pub decreases-push_wide_number : goal.decreases-push_wide_number
decreases-push_wide_number l = l.number
