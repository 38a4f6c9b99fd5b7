-- The calls that read a text keep the guarantee. Assumes nothing.
use Rattle.std.proofs.Common.{◌≡◌, ℕ, List, [], Some, None, Ok, Err, Option, Result, sym, refl, ap, subst, arith}
use Rattle.model.specs.MachineText as texts
use Rattle.model.specs.Schemes.{Meaning}
use Rattle.model.specs.Domains.{Domain}
use Rattle.listing.specs.declared.listing.Listing.{Listing as OwnListing}
use Rattle.listing.specs.Written.{Is}
use Rattle.guarantee.specs.Calls.{Call, machine, loop, with_machine, with_loop, machine_in, listing_in, Answer, accepted, refused}
use Rattle.guarantee.specs.Guarantees.{listing_of, Sound, Guaranteed}
use Rattle.guarantee.proofs.Steps.{machine_refused, machine_accepted, loop_early, loop_refused, loop_accepted}
use Rattle.standing.specs.declared.PackFault.{PackFault}
use Rattle.standing.specs.declared.Desk.{Desk}
use Rattle.standing.specs.declared.Standing.{Standing as OwnStanding}
use Rattle.standing.specs.declared.Standing.TheVariants as own
use Rattle.standing.specs.Faults.{fault}
use Rattle.standing.specs.Seen.{standing_seen, slots_held}
use Rattle.standing.specs.Readings.{ReadsMachine, ReadsLoopOn, ReadsLoop}
use Rattle.packer_laws.specs.States.{state, text_answer, Whole, Kept}

-- without a listing there are no slots
pub no_slots : (x : OwnStanding) (l : OwnListing) → listing_in (standing_seen x) ≡ None → slots_held x l ≡ []
no_slots own.Nothing l e = refl
no_slots (own.Machine m) l e = refl
no_slots (own.Loop b) l e = refl
no_slots (own.Plan p) l e = refl
no_slots (own.Listing p n) l e = let z : ◌≡◌ {A = ℕ} 0 1 = cc in absurd (omega arith)

module _ {S V : Type 0} (meaning : S → Meaning) (place : S → ℕ → ℕ → ℕ) (dom : Domain V) (scheme : S) where
  -- what is left as it was
  same_state : (before after : Desk) → after.standing ≡ before.standing → after.listing ≡ before.listing → state scheme before ≡ state scheme after
  same_state before after e f = cc

  pub still : (before after : Desk) (c : Call V) (a : Answer) → after.standing ≡ before.standing → after.listing ≡ before.listing → Whole meaning place dom scheme before →
      Guaranteed meaning place dom (state scheme before) c a c (state scheme before) →
      Guaranteed meaning place dom (state scheme before) c a c (state scheme after) × Whole meaning place dom scheme after
  still before after c a e f w goal = (
    subst (Guaranteed meaning place dom (state scheme before) c a c) (same_state before after e f) goal,
    record {
      sound = subst (Sound meaning place dom) (same_state before after e f) w.sound;
      written = λ l h. subst (λ x. Is x (listing_of (meaning scheme) l.ops l.plan l.trips)) (sym f) (w.written l (subst (λ x. listing_in (standing_seen x) ≡ Some l) e h));
    },
  )

  pub machine_kept : (before after : Desk) (text : List ℕ) (r : Result (Unit {0}) PackFault) → ReadsMachine before after text r →
      Kept meaning place dom scheme before (machine text) (text_answer r) (machine text) scheme after
  machine_kept before after text (Ok u) said w =
      let m = said.0 in
      let stands = said.1.1 in
      let goal = machine_accepted meaning place dom (state scheme before) w.sound text m said.1.0 said.1.2 in
      let none : listing_in (standing_seen after.standing) ≡ None = ap listing_in stands in
      let slots = no_slots after.standing after.listing none in
      let same : record { stands = with_machine m; scheme = scheme; slots = [] } ≡ state scheme after = cc in
      let kept = subst (Guaranteed meaning place dom (state scheme before) (machine text) accepted (machine text)) same goal in (
        kept,
        record {
          sound = kept.sound;
          written = λ l e. let z : ◌≡◌ {A = ℕ} 0 1 = cc in absurd (omega arith);
        },
      )
  machine_kept before after text (Err f) said w =
      let goal = machine_refused meaning place dom (state scheme before) w.sound text (fault f) said.0 in
      still before after (machine text) (refused (fault f)) (ap (λ x. x.standing) said.1) (ap (λ x. x.listing) said.1) w goal

  loop_on : (before after : Desk) (text : List ℕ) (o : Option texts.Machine) (r : Result (Unit {0}) PackFault) → machine_in (standing_seen before.standing) ≡ o →
      ReadsLoopOn o before after text r → Kept meaning place dom scheme before (loop text) (text_answer r) (loop text) scheme after
  loop_on before after text None (Ok u) e said w = absurd said
  loop_on before after text None (Err f) e said w =
      let goal = loop_early meaning place dom (state scheme before) w.sound text e in
      let told = subst (λ x. Guaranteed meaning place dom (state scheme before) (loop text) (refused x) (loop text) (state scheme before)) (sym said.0) goal in
      still before after (loop text) (refused (fault f)) (ap (λ x. x.standing) said.1) (ap (λ x. x.listing) said.1) w told
  loop_on before after text (Some m) (Ok u) e said w =
      let ops = said.0 in
      let stands = said.1.1 in
      let goal = loop_accepted meaning place dom (state scheme before) w.sound text m ops e said.1.0 said.1.2 said.1.3 in
      let none : listing_in (standing_seen after.standing) ≡ None = ap listing_in stands in
      let slots = no_slots after.standing after.listing none in
      let same : record { stands = with_loop m ops; scheme = scheme; slots = [] } ≡ state scheme after = cc in
      let kept = subst (Guaranteed meaning place dom (state scheme before) (loop text) accepted (loop text)) same goal in (
        kept,
        record {
          sound = kept.sound;
          written = λ l e. let z : ◌≡◌ {A = ℕ} 0 1 = cc in absurd (omega arith);
        },
      )
  loop_on before after text (Some m) (Err f) e said w =
      let goal = loop_refused meaning place dom (state scheme before) w.sound text m (fault f) e said.0 in
      still before after (loop text) (refused (fault f)) (ap (λ x. x.standing) said.1) (ap (λ x. x.listing) said.1) w goal

  pub loop_kept : (before after : Desk) (text : List ℕ) (r : Result (Unit {0}) PackFault) → ReadsLoop before after text r →
      Kept meaning place dom scheme before (loop text) (text_answer r) (loop text) scheme after
  loop_kept before after text r said w = loop_on before after text (machine_in (standing_seen before.standing)) r refl said w
