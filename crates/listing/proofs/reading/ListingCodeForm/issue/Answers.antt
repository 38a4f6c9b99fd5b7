use Rattle.std.proofs.Common.{◌≡◌, vec_items, ap, ◌∙◌, rules}
use Rattle.std.specs.Option.{option_map}
use Rattle.code.specs.Seen.{fetched}
use Rattle.listing.proofs.Cuts.{fetched_at}
use Rattle.listing.proofs.reading.ListingCodeForm.issue.Goals as goal

pub returns : goal.returns
returns c =
    let mapped : c.map.result ≡ option_map (λ s. s.now.issue) c.get.result = search rules in
    ap fetched mapped ∙ fetched_at (vec_items c.args.self.now.rows.slots) c.args.place c.get.result (search rules) (search rules)
