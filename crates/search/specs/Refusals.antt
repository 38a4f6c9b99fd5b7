-- A search is refused where its heights are.
use Rattle.bounds.specs.declared.height.NoHeights as bounds
use Rattle.bounds.specs.declared.height.NoHeights.TheVariants as heights
use Rattle.search.specs.declared.outcome.NoSearch.{NoSearch}
use Rattle.search.specs.declared.outcome.NoSearch.TheVariants.{Outside, Above}

abbrev pub refused_as : bounds.NoHeights → NoSearch
refused_as heights.Outside = Outside
refused_as heights.Above = Above
