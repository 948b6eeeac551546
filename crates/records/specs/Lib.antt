-- The records of document 01, 'Steps and their records': what must be believed of them.
pub mod Records
