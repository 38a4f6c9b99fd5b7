use Rattle.listing_laws.proofs.Sizes.{listing_sizes}
use Rattle.listing_laws.proofs.listing_sizes.Goals as goal

pub returns : goal.returns
returns c = listing_sizes
