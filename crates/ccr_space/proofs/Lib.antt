mod Stepping
mod Closing
mod Dealing
mod Resting
mod RestedActorsAreThrough
mod LogsGrow
mod Histories
