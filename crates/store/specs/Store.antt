-- How many jobs and levels a sheet can have (document 01, 'The sheet'). The constants of the code have the same names.
-- Assumes nothing.
pub use Rattle.frame.specs.Sheet.{jobs_max, levels_max}
