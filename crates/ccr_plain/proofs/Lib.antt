mod CostsAreOwed
mod CutsAreFew
mod RepliesAreKnown
mod ServingKeepsRoom
mod RefusedActorsGoOn
