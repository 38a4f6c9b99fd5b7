use Rattle.std.proofs.Common.{ℕ, ◌%◌}
use Rattle.std.proofs.lemmas.List.Elements.{All-nil}
use Rattle.std.proofs.lemmas.Bool.{cases_eq}
use Rattle.std.proofs.Common.{◌<◌, inl, inr}
use Rattle.engine_writes.specs.Files.{Done}
use Rattle.engine_writes.specs.Lists.{lists_of}
use Rattle.engine_writes.proofs.Landings.{listed_all, below_all, next_pending}
use Rattle.engine_writes.proofs.landing.land.Goals as goal
use Rattle.engine_writes.proofs.landing.land.Goals.{in-Some, in-None}

pub returns : goal.returns
returns g c = record {
  lands = λ d pending.
      let cycle = c.args.cycle in
      let waiting = c.args.waiting.now in
      let status = c.args.statuses.now.status in
      let values = c.args.values.now in
      let lists = lists_of c.args.dues.now in
      let all : (r : ℕ) → Done cycle waiting status values c.match-listed.statuses.status c.match-listed.values d r =
      elim c.match-listed.branch [
        | in-Some w ↦ rw (w.statuses-is, w.values-is)
            (listed_all cycle waiting status values c.args.file lists _ _ d pending _ w.in-Some.ensures.0 w.in-Some.ensures.1 w.land_listed.ensures)
        | in-None w ↦ rw (w.statuses-is, w.values-is)
            (below_all cycle waiting status values c.args.file lists _ _ d pending w.land_each.ensures)
      ] in
      (all, next_pending cycle waiting status values c.args.file lists _ _ d pending _ c.clear.ensures.others all);
  kept = λ x. elim (cases_eq x (c.args.cycle % 8)) [
    | inl e ↦ rw (e, c.clear.ensures.cleared) (All-nil (λ r. r < c.args.file))
    | inr z ↦ rw (c.clear.ensures.others x z) (c.requires.kept x)
  ];
  cleared = c.clear.ensures.cleared;
  others = c.clear.ensures.others;
  places = c.clear.ensures.places;
}
