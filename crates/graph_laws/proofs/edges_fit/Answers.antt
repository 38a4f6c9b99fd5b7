use Rattle.graph_laws.proofs.edges_fit.Goals as goal
use Rattle.graph_laws.proofs.Fits.{edges_fit}

pub returns : goal.returns
returns c = edges_fit
