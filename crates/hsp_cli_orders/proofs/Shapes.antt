-- What clap is told of the commands.
use Rattle.std.proofs.Common.{◌≡◌, refl, true}
use Rattle.clap.specs.Words.{is_simple, is_simple_and_free}
use Rattle.clap.proofs.OnLiterals.{clap_on_literals}
use Rattle.hsp_cli_orders.specs.Commands.{hsplan_app, stream_app}

-- no command asks for more than options and words
pub is_simple-hsplan : is_simple hsplan_app ≡ true
unfolding clap_on_literals
is_simple-hsplan = refl

-- the commands of hsplan are plain ones, and none of their names is one of clap's own
pub is_free-hsplan : is_simple_and_free hsplan_app ≡ true
unfolding clap_on_literals
is_free-hsplan = refl

-- the commands of hsplan-stream are plain ones
pub is_simple-stream : is_simple stream_app ≡ true
unfolding clap_on_literals
is_simple-stream = refl

-- none of their names is one of clap's own
pub is_free-stream : is_simple_and_free stream_app ≡ true
unfolding clap_on_literals
is_free-stream = refl
