use Rattle.hsp_tables.proofs.table_check.is_table_header.Goals as goal

pub returns-in-Capacity : goal.returns-in-Capacity
returns-in-Capacity c = rw c.in-Capacity.is c.is_header-in-Capacity.ensures
