-- Talks of the run that states the servers of handles.
use Rattle.std.proofs.Common.{◌≡◌, inl, inr, true, false, List, is_some, subst}
use Rattle.hsp_instance.specs.Instance.{Site}
use Rattle.hsp_talk.specs.Known.{Known, Went}
use Rattle.hsp_talk.specs.Talk.{Event, HeldToTheEnd, StoppedBy}
use Rattle.hsp_talk.specs.declared.stop.Stop.{Stop}
use Rattle.hsp_talk.specs.declared.stop.Stop.TheVariants as stop
use Rattle.hsp_stream.specs.Places.{PlacesState, RefusesHandle, TakesHandle, at_start}
use Rattle.hsp_stream.specs.PlacesRun.{AreAnswered, HasStopped, IsStoppedBy}
use Rattle.hsp_log.specs.declared.fault.RowFault.{RowFault}
use Rattle.hsp_log.specs.declared.fault.RowFault.TheVariants as row

module _ (sites : List Site) (first last : PlacesState) (start : first ≡ at_start sites) where
  -- all rows were answered after a header
  pub all_answered : (old new : Known) → is_some last.form ≡ true → Went old new (HeldToTheEnd TakesHandle first last)
      → Went old new (AreAnswered sites)
  all_answered old new has (events, goes, so) =
      (events, goes, (last, subst (λ f. HeldToTheEnd TakesHandle f last events) start so, has))

  -- no header came
  pub no_header : (old new : Known) → is_some last.form ≡ false → Went old new (HeldToTheEnd TakesHandle first last)
      → Went old new (IsStoppedBy sites row.Header)
  no_header old new none (events, goes, so) =
      (events, goes, inr (last, subst (λ f. HeldToTheEnd TakesHandle f last events) start so, none))

  -- the talk stopped
  pub has_stopped : (old new : Known) (found by : Stop RowFault) (Q : List Event → Type 0) → found ≡ by
      → ((events : List Event) → HasStopped sites by events → Q events)
      → Went old new (λ events. StoppedBy TakesHandle RefusesHandle first last events found) → Went old new Q
  has_stopped old new found by Q is shows (events, goes, so) = (
    events,
    goes,
    shows events (
      last,
      subst (λ s. StoppedBy TakesHandle RefusesHandle (at_start sites) last events s) is
          (subst (λ f. StoppedBy TakesHandle RefusesHandle f last events found) start so),
    ),
  )

-- a row was refused by a fault
pub by_fault : (sites : List Site) (fault : RowFault) (events : List Event) → HasStopped sites (stop.Fault fault) events
    → IsStoppedBy sites fault events
by_fault sites row.ReadFailed events so = inr so
by_fault sites row.WriteFailed events so = inr so
by_fault sites row.Header events so = inl so
by_fault sites (row.Fields number) events so = so
by_fault sites (row.BadName number) events so = so
by_fault sites (row.BadHandle number fault) events so = so
by_fault sites (row.BadNumber number) events so = so
by_fault sites (row.TooManyRegions number) events so = so
