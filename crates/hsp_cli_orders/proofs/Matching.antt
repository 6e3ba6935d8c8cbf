-- The subcommand that clap met, against the words.
use Rattle.std.proofs.Common.{◌≡◌, ◌∙◌, inl, inr, sym, refl, List, [], ℕ, Option, Some, None, option_map, Box, Result}
use Rattle.std.proofs.Common.{Ok, Err, IfOk, OnOk, true}
use Rattle.clap.specs.Words.{App, Row, Text, HasMatchesOf, is_simple, is_simple_and_free, FailsBy, HasKind, Kinds}
use Rattle.clap.specs.Words.{fault_of, kind_of, subcommand_of, subcommand_rows_of, subcommand_rows, subcommand_name_of}
use Rattle.clap.specs.Words.{rows_of, found_of}
use Rattle.clap.specs.declared.error.Error.{Error}
use Rattle.clap.specs.declared.error.kind.ErrorKind.TheVariants as kind
use Rattle.clap.specs.declared.parser.matches.ArgMatches.{ArgMatches}
use Rattle.clap.specs.declared.parser.matches.ArgMatches.TheViews.{out-ArgMatches, out-SubCommand}
use Rattle.clap.specs.declared.parser.matches.SubCommand.{SubCommand}
use Rattle.std.specs.Box.{box_value}
use Rattle.hsp_cli_orders.specs.Commands.{stream_app}
use Rattle.hsp_cli_orders.specs.StreamOrders.{IsCommandOrder, IsStreamOrder, IsStreamOrdered, IsStreamUsage, asked}
use Rattle.hsp_cli_orders.specs.declared.fault.CommandFault.{CommandFault}
use Rattle.hsp_cli_orders.specs.declared.fault.CommandFault.TheVariants as command_fault
use Rattle.hsp_cli_orders.specs.declared.stream_order.StreamOrder.{StreamOrder}

-- the subcommand that was met has its name and its options
met_is : {Z : Type 0} (o : Option (Box SubCommand Z)) (n : List ℕ) (rows : List Row)
    → Some n ≡ option_map (λ b. (out-SubCommand (box_value b)).name.now) o
    → Some rows ≡ option_map (λ p. p.1) (subcommand_rows o)
    → subcommand_rows o ≡ Some (n, rows)
met_is None n rows p q = cc
met_is (Some b) n rows p q =
    let x : n ≡ (out-SubCommand (box_value b)).name.now = cc in
    let y : rows ≡ rows_of (found_of (out-SubCommand (box_value b)).matches) = cc in rw (x, y) refl

-- without a subcommand none was met
none_is : {Z : Type 0} (o : Option (Box SubCommand Z))
    → None ≡ option_map (λ b. (out-SubCommand (box_value b)).name.now) o → subcommand_rows o ≡ None
none_is None p = refl
none_is (Some b) p = cc

-- the subcommand that was taken off the matches is that of the words
pub met : (m : ArgMatches) (words : List Text) (n : List ℕ) (rows : List Row) (a app : App) → is_simple app ≡ true
    → Some n ≡ subcommand_name_of m → Some rows ≡ option_map (λ p. p.1) (subcommand_rows_of m) → a ≡ app
    → HasMatchesOf a words m
    → subcommand_of app words ≡ Some (n, rows)
met m words n rows a app simple p q e h =
    let at = rw e at h in
    let rows_are : subcommand_rows_of m ≡ subcommand_of app words = (at simple).1 in
    sym rows_are ∙ met_is (out-ArgMatches m).subcommand n rows p q

-- no subcommand was met, and the words have none
pub met_none : (m : ArgMatches) (words : List Text) (a app : App) → is_simple app ≡ true → None ≡ subcommand_name_of m
    → a ≡ app → HasMatchesOf a words m
    → subcommand_of app words ≡ None
met_none m words a app simple p e h =
    let at = rw e at h in
    let rows_are : subcommand_rows_of m ≡ subcommand_of app words = (at simple).1 in
    sym rows_are ∙ none_is (out-ArgMatches m).subcommand p

-- the parse fails by what the words give
pub fails_by : {T : Type 0} (r : Result T Error) (words : List Text) (a app : App) → is_simple_and_free app ≡ true
    → a ≡ app → (is_simple_and_free a ≡ true → FailsBy (fault_of a words) r)
    → FailsBy (fault_of app words) r
fails_by r words a app free e h =
    let at = rw e at h in
    at free

-- what stands of every answer stands of an order
pub of_orders : {A E : Type 0} {P : Type 0} (r : Result A E) → P → OnOk r P
of_orders (Ok x) p = p
of_orders (Err e) p = tt

-- an error of another kind than out of memory is one of the kinds that the words give, so these are some
pub has_fault : (e : Error) (kinds : Kinds) → HasKind kinds e → (kind_of e ≡ kind.OutOfMemory → ⊥) → kinds ≡ [] → ⊥
has_fault e kinds (inl memory) other none = other memory
has_fault e kinds (inr among) other none = rw none at among

-- ---- the orders of hsplan-stream

-- what a command's reading promises, case by case
pub of_command : (words : List Text) (r : Result StreamOrder CommandFault)
    → IfOk r (λ o. IsStreamOrder o (subcommand_of stream_app words))
    → OnOk r (fault_of stream_app words ≡ []) → (r ≡ Err command_fault.Usage → IsStreamUsage words)
    → IsCommandOrder words r
of_command words (Ok o) order taken usage = (taken, order)
of_command words (Err command_fault.Usage) order taken usage = usage refl
of_command words (Err command_fault.OutOfMemory) order taken usage = tt

-- words that ask for neither help nor the version
pub of_others : (words : List Text) (r : Result StreamOrder CommandFault) → asked words ≡ None → IsCommandOrder words r
    → IsStreamOrdered words r
of_others words r none h = rw none h
