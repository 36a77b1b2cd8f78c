mod Early
