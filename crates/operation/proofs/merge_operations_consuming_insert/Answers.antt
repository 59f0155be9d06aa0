-- Shown: `merge_operations_consuming_insert` answers `met_by`.
-- How: two inserts by the laws of proofs/Pairs.antt; the check finds the other pairs alone.
use Rattle.operation.proofs.Pairs.{low_of, meets_insert, met-inserts}
use Rattle.operation.proofs.merge_operations_consuming_insert.Goals as goal

pub overflow_sub-result : goal.overflow_sub-result
overflow_sub-result c = low_of _ _ c.insert_overlap-overlap.ensures.value

pub returns-in-Insert-Inserted-clause-value : goal.returns-in-Insert-Inserted-clause-value
returns-in-Insert-Inserted-clause-value c = let i = c.in-Insert-Inserted in
    met-inserts _ _ _ _ _ _ _ _ _ _ c.insert_overlap-overlap.result i.is-0 i.is-1 (meets_insert i.is-0 i.is-1 c.requires.1).lent c.insert_overlap-overlap.ensures.value
