use Rattle.listing_laws.proofs.Law.{listing_means}
use Rattle.listing_laws.proofs.listing_means_issues.Goals as goal

pub returns : goal.returns
returns c = listing_means
